pub mod Candidates
pub mod Steps
