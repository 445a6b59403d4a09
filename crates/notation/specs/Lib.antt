pub mod Escapes
pub mod Lines
pub mod View
pub mod Scores
pub mod Causes
pub mod Limits
