pub mod Named
pub mod Refused
pub mod Found
pub mod Reach
pub mod Index
pub mod Laws
pub mod Examples
