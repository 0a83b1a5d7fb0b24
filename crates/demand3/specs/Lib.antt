pub mod Calls
pub mod Journal
pub mod Demand3
pub mod Values
