pub mod Flagging
pub mod Searching
pub mod Reaching
pub mod MarkLemmas
pub mod Turning
pub mod Resting
pub mod Holding
pub mod Marked
