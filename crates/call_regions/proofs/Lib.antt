mod Lists
mod Joining
mod Growing
mod Exploring
mod Placing
mod Answering
pub mod Sorting
mod Ordering
mod Stepping
mod Visiting
