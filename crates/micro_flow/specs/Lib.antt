pub mod Walk
pub mod Costs
pub mod Ceilings
pub mod Closed
