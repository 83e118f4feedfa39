pub mod Visits
pub mod Paths
pub mod Counting
