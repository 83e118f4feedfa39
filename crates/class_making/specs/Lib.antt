pub mod Making
pub mod Plans
pub mod Right
pub mod Laws
