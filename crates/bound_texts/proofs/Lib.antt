pub mod LoopsLemmas
pub mod SourcesLemmas
