pub mod Scanned
pub mod BareFiles
pub mod Numbers
pub mod Sequences
pub mod Whole
