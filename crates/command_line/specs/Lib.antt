pub mod Table
pub mod Command
pub mod Grammar
pub mod Rows
pub mod Given
pub mod Range
