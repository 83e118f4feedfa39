pub mod Lent
pub mod Put
pub mod Lines
pub mod Traced
