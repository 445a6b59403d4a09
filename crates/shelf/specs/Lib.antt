pub mod Meaning
pub mod Shelving
