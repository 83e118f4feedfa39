pub mod Telling
pub mod NamedPlaces
pub mod Marking
pub mod Ending
pub mod Pushing
pub mod Listing
pub mod Scanning
