pub mod Coded
pub mod Filled
pub mod Places
pub mod Ended
