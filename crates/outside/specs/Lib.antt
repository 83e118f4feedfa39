pub mod Outside
pub mod Growing
pub mod Memory
pub mod ReadAll
pub mod Host
pub mod Files
