pub mod Options
pub mod Stack
pub mod Known
pub mod Standing
pub mod Walking
