pub mod Parts
pub mod Loading
pub mod Following
