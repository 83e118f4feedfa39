pub mod Loading
pub mod Filling
