pub mod TreeLemmas
pub mod SearchLemmas
pub mod FillLemmas
pub mod TableLemmas
pub mod AnswerLemmas
pub mod KnownLemmas
pub mod ResidueLemmas
