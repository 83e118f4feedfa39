pub mod Numbers
pub mod Choosing
pub mod WordBits
mod Stacking
pub mod Acting
mod Combining
mod Pushing
mod Placing
mod Telling
