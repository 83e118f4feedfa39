pub mod Lemmas
pub mod FirstLemmas
pub mod Reached
pub mod Searching
pub mod Finding
pub mod Among
pub mod Tables
pub mod Lookups
