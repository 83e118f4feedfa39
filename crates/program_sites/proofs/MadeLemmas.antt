pub mod Telling
pub mod Growing
pub mod Words
pub mod Places
