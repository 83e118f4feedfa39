pub mod FirstBad
pub mod LoopFaults
pub mod NoteFaults
