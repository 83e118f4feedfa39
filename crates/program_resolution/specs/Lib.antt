pub mod Linked
pub mod Linking
pub mod Refusals
pub mod Resolving
