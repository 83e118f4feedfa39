pub mod WordLemmas
pub mod OneReading
pub mod ReadLemmas
pub mod AddingLemmas
pub mod SubjectLemmas
pub mod FactLemmas
pub mod NamesLemmas
