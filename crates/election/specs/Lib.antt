pub mod Election
pub mod Queries
pub mod Steps
