pub mod Hashes
pub mod Words
pub mod Includes
pub mod Causes
