pub mod Machine
pub mod Runs
