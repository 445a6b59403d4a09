mod Checks
pub mod Flags
pub mod Good
pub mod Meant
pub mod Packing
pub mod Walks
pub mod Written
