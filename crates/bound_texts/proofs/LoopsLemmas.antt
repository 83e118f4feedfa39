pub mod SplitLemmas
pub mod NameLemmas
pub mod ReadLemmas
pub mod OneReading
