mod Finding
mod Headers
mod Ending
pub mod Facts
mod Walking
mod Plain
pub mod Pricing
pub mod Lines
pub mod Viewed
mod Refusing
mod Examples
mod Calling
