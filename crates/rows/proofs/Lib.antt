pub mod Compared
pub mod Looks
pub mod Places
pub mod Rows
pub mod Outcomes
mod Heads
pub mod Columns
