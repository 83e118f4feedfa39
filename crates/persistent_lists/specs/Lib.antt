pub mod Tables
pub mod Trees
pub mod Answers
pub mod Known
pub mod Residues
