pub mod TypeLemmas
pub mod DescriptorLaws
pub mod NameLaws
