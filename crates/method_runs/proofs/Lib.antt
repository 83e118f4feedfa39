pub mod Graphs
pub mod Shaping
pub mod Leading
pub mod Ending
pub mod Following
pub mod Running
pub mod TypedGraphsLemmas
