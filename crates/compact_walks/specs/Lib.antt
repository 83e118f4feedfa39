pub mod Moving
pub mod Charging
pub mod Solving
pub mod Limited
pub mod Laws
