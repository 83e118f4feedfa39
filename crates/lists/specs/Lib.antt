pub mod Lists
pub mod Numbers
pub mod Members
pub mod Tests
