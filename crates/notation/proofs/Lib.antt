pub mod Escaping
pub mod Showing
pub mod ReadsBack
pub mod Growing
pub mod Carrying
pub mod Refusing
pub mod Readable
