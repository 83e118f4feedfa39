pub mod TopDown
pub mod Members
pub mod Marks
pub mod Tables
pub mod Selecting
pub mod Deciding
pub mod Cycles
pub mod EachOnce
