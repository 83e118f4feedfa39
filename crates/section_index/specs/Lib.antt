pub mod Numbering
pub mod Family
pub mod Crossing
pub mod Classes
pub mod Splitting
