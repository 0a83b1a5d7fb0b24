pub mod Orders
pub mod Laws
pub mod Runs
