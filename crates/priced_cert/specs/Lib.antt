pub mod Prices
pub mod Certificate
pub mod Texts
pub mod Laws
pub mod Parting
pub mod Shown
pub mod Fronts
pub mod Weaving
