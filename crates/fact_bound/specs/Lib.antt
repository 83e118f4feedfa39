pub mod Plain
pub mod Grammar
pub mod Search
