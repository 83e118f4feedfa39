pub mod Names
pub mod Descriptors
pub mod Parsing
pub mod Parts
