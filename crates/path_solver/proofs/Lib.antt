mod Sources
mod Backward
pub mod Loops
mod Taken
pub mod Apart
mod CountingDown
pub mod Order
pub mod Growing
mod Most
mod Spreading
mod Picking
pub mod Onward
mod Leading
pub mod Orderly
mod Certified
mod Adding
pub mod Fewer
pub mod Headers
pub mod Structure
pub mod Correspond
mod CostsAround
mod AlongEdges
pub mod Ranges
mod Accepting
mod Certificates
mod Placed
pub mod Keeping
mod Entering
pub mod Prolonging
pub mod Nesting
pub mod Attained
pub mod IterationBound
mod Solving
pub mod Solutions
mod Listing
mod AddingUp
mod Costing
mod SimpleParts
mod BoundedReach
mod Marking
pub mod Headed
pub mod Exact
pub mod Limiting
