pub mod Answers
pub mod Loops
pub mod Leasts
pub mod Walking
pub mod Sorting
pub mod Answering
pub mod Lines
pub mod Profiles
