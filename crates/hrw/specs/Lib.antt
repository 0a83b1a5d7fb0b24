pub mod Weight
pub mod Ties
pub mod Steps
