pub mod Telling
pub mod Counting
pub mod Opcodes
pub mod Reading
pub mod Filling
pub mod Lining
pub mod Coding
pub mod Leaving
