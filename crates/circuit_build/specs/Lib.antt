pub mod Wiring
pub mod Parts
pub mod Laws
