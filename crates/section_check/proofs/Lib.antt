pub mod LeastLemmas
pub mod Elements
pub mod Sums
mod Sound
mod Bounding
mod Own
mod Iterating
pub mod Rising
pub mod Least
pub mod Headed
pub mod Ordered
mod Deciding
mod Sharing
mod NoExit
pub mod Marking
mod Regions
mod Answering
mod Charging
mod Entered
mod Moving
