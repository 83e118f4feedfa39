pub mod Reading
pub mod Following
pub mod Examples
