pub mod Programs
pub mod Roms
pub mod SoFar
pub mod Listing
pub mod Parts
pub mod Statements
pub mod Meaning
