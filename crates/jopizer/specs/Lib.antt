pub mod Linked
pub mod Refused
pub mod Images
pub mod Laws
pub mod Methods
pub mod Meaning
