pub mod Within
pub mod Words
pub mod Places
pub mod Says
pub mod Laws
pub mod Methods
