pub mod Lines
pub mod Source
pub mod Table
pub mod Examples
