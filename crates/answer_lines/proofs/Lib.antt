pub mod Joined
mod Nodes
pub mod WorkTexts
pub mod RowLaws
