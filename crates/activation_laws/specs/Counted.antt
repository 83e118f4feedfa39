pub mod Others
pub mod Laws
pub mod Runs
pub mod Found
pub mod Further
pub mod FurtherRuns
