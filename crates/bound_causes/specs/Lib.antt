pub mod Naming
pub mod Headers
pub mod Shapes
pub mod Causes
pub mod Ready
pub mod Laws
