pub mod MadeLemmas
pub mod IntsLemmas
