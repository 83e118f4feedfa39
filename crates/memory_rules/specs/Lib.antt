pub mod Stack
pub mod Heap
pub mod Given
pub mod Sites
pub mod Laws
