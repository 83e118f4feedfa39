pub mod Laws
pub mod InterfaceEntries
