pub mod Obeys
pub mod Landings
pub mod Built
pub mod Stages
pub mod Ending
pub mod Ended
pub mod Modes
pub mod Advancing
pub mod Keeping
pub mod BareRows
pub mod BareWalk
pub mod BarePrograms
pub mod Starting
pub mod Resetting
pub mod LinkedStart
pub mod BareStepping
pub mod Reading
pub mod Lasting
pub mod Answered
pub mod Whole
pub mod Tracing
pub mod Heights
pub mod Tops
pub mod Following
mod InARow
mod Faults
mod BareStates
mod Between
mod Caught
mod Statics
mod Tables
mod Boot
mod Limits
mod Handlers
mod Told
mod Uncaught
