pub mod Tables
pub mod Isa
