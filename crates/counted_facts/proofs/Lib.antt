pub mod Staying
pub mod Parting
pub mod Holding
pub mod Booting
