pub mod Seen
pub mod Profiled
pub mod Called
pub mod Counted
