pub mod Laws
pub mod Charges
pub mod Stays
pub mod Loads
