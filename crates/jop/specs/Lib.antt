pub mod Help
pub mod Answers
