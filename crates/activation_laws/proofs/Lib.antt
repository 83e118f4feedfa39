mod Depths
mod Searching
mod Once
mod Within
mod Kept
mod Called
pub mod CountedLemmas
