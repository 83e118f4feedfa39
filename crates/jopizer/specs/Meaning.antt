pub mod Meaning
pub mod Readings
