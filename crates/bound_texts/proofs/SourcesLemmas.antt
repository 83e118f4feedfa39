pub mod SourceLemmas
pub mod LineLemmas
pub mod NameLemmas
pub mod ReadLemmas
pub mod OneReading
