pub mod Making
pub mod Lines
