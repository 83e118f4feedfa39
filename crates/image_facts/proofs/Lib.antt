pub mod Pieces
pub mod Regions
pub mod Making
pub mod Staying
mod Finding
mod Starting
