pub mod Setting
pub mod Port
