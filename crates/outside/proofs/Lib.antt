pub mod Told
pub mod Listed
pub mod Known
pub mod Together
