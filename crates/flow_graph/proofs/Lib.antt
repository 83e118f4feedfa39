pub mod Rising
pub mod Searching
pub mod Spanning
mod Opcodes
pub mod Renumbering
pub mod Growing
pub mod Joining
pub mod Cutting
pub mod Leading
pub mod Catching
pub mod Noting
pub mod Leaving
pub mod Placing
pub mod Starting
