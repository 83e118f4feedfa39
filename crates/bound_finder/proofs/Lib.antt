mod Turning
mod Agreeing
mod Fitting
mod CallNodes
mod Within
mod Charging
mod Bounding
mod CandidateLists
pub mod Limiting
pub mod SmallCosts
pub mod Reached
mod Raising
pub mod Measuring
pub mod Valuing
mod Exceeding
mod Parts
pub mod Alike
pub mod Costing
pub mod OneValue
pub mod Knowing
pub mod OneAgrees
pub mod FoundNumbers
pub mod KnownIs
mod ShowTold
mod ShowSaid
mod ShowMoved
mod ShowSection
mod ShowNever
mod ShowNodes
mod Showing
mod ShowText
pub mod Greater
pub mod Pushed
pub mod Added
pub mod Told
pub mod Coding
pub mod Shapes
pub mod Held
pub mod Preparing
pub mod Readying
mod Examining
pub mod Growing
mod MoreFound
pub mod Finding
pub mod KnownWithin
pub mod Ended
mod Gathering
pub mod Ordering
pub mod Certifying
mod Besides
mod Bounded
