pub mod Elements
mod Grouping
pub mod Around
mod Nesting
mod WalkParts
mod Classes
mod Cycles
mod Quotients
pub mod Ends
mod Entries
mod ClassLists
mod BackEdges
pub mod Searching
pub mod Rising
mod Flags
mod Bodies
mod Nested
mod Innermost
mod Adding
mod Linked
mod Scanning
mod Pointing
mod Rows
mod Outward
pub mod SimpleWalks
mod Parts
mod PartLoops
