pub mod Meaning
pub mod WellFormed
pub mod Examples
pub mod Laws
pub mod Names
pub mod Evaluation
