pub mod Shapes
pub mod Bare
pub mod Scan
pub mod Meaning
pub mod Linked
pub mod Front
pub mod LinkedMeaning
