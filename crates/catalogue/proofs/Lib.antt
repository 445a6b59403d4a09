pub mod Lists
pub mod LookUp
pub mod Withdrawing
