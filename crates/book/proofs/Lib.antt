pub mod Adding
pub mod Cutting
pub mod Digits
pub mod Distinct
pub mod Gathering
pub mod Searches
pub mod Spelling
