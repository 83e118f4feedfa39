pub mod Resolved
pub mod Instances
pub mod Types
pub mod Entries
pub mod Strings
