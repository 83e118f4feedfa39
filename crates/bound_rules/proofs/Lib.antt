pub mod Finding
pub mod Examined
mod Ending
mod Headers
pub mod Walking
mod Coding
pub mod Sums
pub mod Owning
pub mod Views
mod Refusing
mod Examples
mod Graphing
mod Sampling
mod Printing
mod Certifying
mod Rising
mod Heading
pub mod Valuing
pub mod Parting
mod Charging
pub mod Numbering
pub mod Greatest
