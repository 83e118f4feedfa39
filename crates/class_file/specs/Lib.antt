pub mod Reading
pub mod Grammar
pub mod Faults
pub mod InsideReading
pub mod Parts
pub mod InsideGrammar
pub mod Writing
