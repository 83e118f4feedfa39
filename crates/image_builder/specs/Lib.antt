pub mod Runs
pub mod Laid
pub mod Passed
