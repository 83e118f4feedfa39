pub mod Tasks
pub mod Answer
pub mod Process
pub mod Calls
pub mod Courses
pub mod Correct
pub mod promises
