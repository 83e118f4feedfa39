pub mod Shapes
pub mod Loading
pub mod Tags
pub mod Next
pub mod Circuits
