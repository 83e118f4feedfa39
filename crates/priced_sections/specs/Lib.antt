pub mod Visits
pub mod Prices
pub mod Paid
pub mod Answers
pub mod Laws
pub mod Views
pub mod Examples
