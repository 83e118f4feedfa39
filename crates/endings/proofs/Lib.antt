pub mod Words
pub mod Endings
pub mod Named
pub mod Behind
pub mod Texts
