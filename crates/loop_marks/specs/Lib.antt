pub mod Flags
pub mod Reach
pub mod Marking
