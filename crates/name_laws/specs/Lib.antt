pub mod Names
pub mod Written
pub mod Laws
pub mod Rows
