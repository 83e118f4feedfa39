pub mod Invokes
pub mod Made
pub mod Receivers
pub mod Targets
pub mod Marks
pub mod Names
