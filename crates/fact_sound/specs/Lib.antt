pub mod Laws
pub mod Visits
