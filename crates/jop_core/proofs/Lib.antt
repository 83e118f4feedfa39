pub mod OneCycle
pub mod ResetWords
pub mod Kept
pub mod Tells
pub mod StepTable
pub mod Fetching
pub mod Pausing
pub mod Failing
