pub mod Work
pub mod Bounds
pub mod Laws
pub mod Rows
