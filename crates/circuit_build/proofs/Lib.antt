pub mod Bits
mod Finished
mod Grown
mod Further
mod Sets
mod Settled
pub mod Steps
