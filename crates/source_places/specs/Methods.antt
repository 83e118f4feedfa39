pub mod Sources
pub mod Told
