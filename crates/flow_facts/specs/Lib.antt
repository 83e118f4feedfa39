pub mod Facts
pub mod Lines
pub mod Grammar
pub mod Adding
pub mod Meaning
pub mod Laws
