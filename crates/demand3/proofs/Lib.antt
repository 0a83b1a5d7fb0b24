pub mod Calls
mod Settings
pub mod Demand3
pub mod Values
pub mod Told
