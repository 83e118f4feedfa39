mod Searching
mod Looping
mod Placing
mod Listing
mod Meaning
mod Uniting
mod Refusing
mod Examples
