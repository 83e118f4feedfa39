pub mod Slots
pub mod Grammar
pub mod Parts
pub mod Executive
pub mod Laws
pub mod Rows
