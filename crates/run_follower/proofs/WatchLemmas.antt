pub mod Combined
pub mod Endings
pub mod SlotSums
pub mod ProfileSums
pub mod Limits
