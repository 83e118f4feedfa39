pub mod Rows
pub mod Steps
pub mod Examples
pub mod DeviceStates
