pub mod Values
pub mod Numbers
pub mod Devices
pub mod Heap
pub mod Objects
