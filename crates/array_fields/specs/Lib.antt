pub mod Rows
pub mod Contents
pub mod Puts
pub mod First
pub mod Lengths
pub mod Laws
