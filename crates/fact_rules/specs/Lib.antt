pub mod Pricing
pub mod Keeping
pub mod Sections
pub mod Conditions
pub mod Refused
pub mod Laws
pub mod Examples
