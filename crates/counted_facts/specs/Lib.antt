pub mod Stays
pub mod Laws
pub mod Found
