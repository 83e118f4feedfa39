pub mod Reading
pub mod Widths
pub mod Writing
pub mod Raising
pub mod Going
pub mod Ending
pub mod Family
