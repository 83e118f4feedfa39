pub mod Cuts
pub mod NameLemmas
pub mod Lines
pub mod Reading
pub mod OneReading
pub mod Plans
mod Rows
