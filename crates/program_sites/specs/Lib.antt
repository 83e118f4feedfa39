pub mod Made
pub mod Ints
