pub mod Cutting
pub mod Places
