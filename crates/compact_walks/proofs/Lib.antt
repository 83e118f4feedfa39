pub mod Renumbering
pub mod Walks
pub mod Loops
pub mod Kept
mod Greatest
mod Parts
pub mod Charged
pub mod Marks
mod Solutions
