pub mod Methods
pub mod Shows
pub mod Frames
