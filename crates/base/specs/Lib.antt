pub mod Reading
pub mod Telling
pub mod Growing
pub mod Signed
pub mod Packed
pub mod Sizes
