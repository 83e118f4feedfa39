pub mod Decoding
pub mod Standing
pub mod Choices
pub mod Places
