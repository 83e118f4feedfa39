pub mod Values
pub mod Rules
pub mod Acts
pub mod Reading
pub mod Writing
