mod Following
pub mod Staying
pub mod Nodes
mod Walking
pub mod Keeping
mod Trees
mod Wording
