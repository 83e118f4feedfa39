pub mod NamingLemmas
pub mod LineLemmas
pub mod LawLemmas
