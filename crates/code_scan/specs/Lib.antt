pub mod Rows
pub mod Told
pub mod Lines
pub mod Naming
pub mod Marks
pub mod Scans
