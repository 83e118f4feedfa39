pub mod Addresses
mod ByteWords
mod Conditions
mod Taken
