pub mod Entries
pub mod IsaLemmas
