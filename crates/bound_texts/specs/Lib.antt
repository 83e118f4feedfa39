pub mod Loops
pub mod Sources
