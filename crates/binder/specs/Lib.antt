pub mod Binding
pub mod Entries
pub mod Fields
pub mod Laws
pub mod Left
pub mod Meaning
pub mod Packing
