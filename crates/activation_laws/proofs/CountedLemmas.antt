pub mod Parting
pub mod Staying
pub mod Holding
pub mod Starting
pub mod Beginning
pub mod FurtherBeginning
