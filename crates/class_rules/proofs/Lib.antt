pub mod FormLemmas
pub mod DistinctLemmas
pub mod RuleLaws
pub mod AllLaws
pub mod FoundLaws
