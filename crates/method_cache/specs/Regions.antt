pub mod Region
pub mod LookUps
