pub mod Stack
pub mod Timing
