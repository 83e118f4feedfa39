pub mod Calling
pub mod Regions
pub mod Tables
pub mod Searching
pub mod Walking
pub mod Laws
