pub mod Flags
pub mod Forms
pub mod Tests
pub mod Distinct
pub mod Rules
pub mod Found
pub mod Grammar
