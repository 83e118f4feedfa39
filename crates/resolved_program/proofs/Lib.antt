pub mod BoundLemmas
pub mod InstanceLemmas
pub mod InstructionLemmas
pub mod MeaningLemmas
pub mod StringLemmas
