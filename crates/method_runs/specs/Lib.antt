pub mod Runs
pub mod Standing
pub mod Steps
pub mod Laws
pub mod TypedGraphs
