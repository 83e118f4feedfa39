pub mod TextLemmas
pub mod PlaceLemmas
pub mod TextLaws
pub mod EntryLaws
pub mod PoolLaws
pub mod FoundLemmas
pub mod CheckLemmas
