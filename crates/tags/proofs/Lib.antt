pub mod Splits
pub mod Members
pub mod Forms
pub mod Causing
pub mod Inserting
