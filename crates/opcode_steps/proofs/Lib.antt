pub mod ValueLemmas
pub mod NumberLemmas
pub mod DeviceLemmas
pub mod HeapLemmas
pub mod ObjectLemmas
