pub mod Choosing
pub mod Staying
pub mod Existing
