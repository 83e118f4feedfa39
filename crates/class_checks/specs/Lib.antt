pub mod Causes
pub mod Descriptors
pub mod Marks
