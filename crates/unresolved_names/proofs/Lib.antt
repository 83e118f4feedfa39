pub mod PartLemmas
pub mod ManyLemmas
pub mod MentionLemmas
pub mod ReasonLemmas
