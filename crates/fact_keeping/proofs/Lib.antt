mod Staying
mod Keeping
mod Counting
