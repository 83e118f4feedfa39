pub mod Contents
pub mod Ring
pub mod Meaning
pub mod Laws
pub mod Regions
