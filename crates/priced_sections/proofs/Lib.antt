pub mod Sound
mod Dominating
mod Counting
mod Steps
mod Gains
mod Bounding
mod NoEnd
pub mod Headed
mod Plain
mod Adding
mod Fees
mod Deciding
mod Unheld
mod InPlace
mod Answering
