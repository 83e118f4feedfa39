pub mod Index
pub mod Missing
pub mod RootTable
pub mod Known
pub mod Section
pub mod Answer
