pub mod Keeping
pub mod Children
pub mod Laws
