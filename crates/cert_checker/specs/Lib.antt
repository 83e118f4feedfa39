pub mod Setting
pub mod Telling
pub mod Prepared
pub mod Answer
pub mod Section
