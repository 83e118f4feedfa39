pub mod Watched
pub mod Opened
pub mod Level
pub mod Counting
pub mod Promises
pub mod Worked
