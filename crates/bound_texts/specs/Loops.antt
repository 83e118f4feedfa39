pub mod Bounds
pub mod Lines
pub mod Grammar
pub mod Meaning
pub mod Laws
