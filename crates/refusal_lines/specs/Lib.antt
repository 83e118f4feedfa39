pub mod Names
pub mod Lines
pub mod Entries
pub mod Naming
pub mod Laws
pub mod Room
