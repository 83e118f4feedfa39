pub mod Told
pub mod Watched
pub mod Noting
