pub mod Entries
pub mod Text
pub mod Laws
pub mod Report
pub mod Joining
pub mod Told
