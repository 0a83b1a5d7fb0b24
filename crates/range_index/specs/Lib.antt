pub mod Index
pub mod Steps
