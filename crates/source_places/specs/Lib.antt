pub mod Tables
pub mod Methods
