pub mod Walking
pub mod Existing
pub mod Causes
pub mod Soundness
