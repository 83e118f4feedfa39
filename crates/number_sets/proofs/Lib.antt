pub mod Marks
pub mod Inserting
pub mod Peeling
pub mod Ranks
pub mod UpwardLemmas
pub mod MarkLemmas
pub mod BitsLemmas
