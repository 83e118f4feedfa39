pub mod Numbers
pub mod WordLemmas
pub mod Stored
pub mod Meanings
pub mod Reading
pub mod Telling
pub mod Stopping
pub mod Ranges
