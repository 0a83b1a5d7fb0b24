pub mod Calls
pub mod Journal
pub mod Demand3
