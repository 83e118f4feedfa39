pub mod Problem
pub mod Sweep
