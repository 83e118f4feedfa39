pub mod Notes
pub mod Grammar
pub mod Meaning
pub mod Laws
