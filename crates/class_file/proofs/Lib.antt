pub mod ClassLaws
pub mod ManyLemmas
pub mod PartLaws
pub mod MemberLaws
pub mod CheckLemmas
pub mod WritingLemmas
