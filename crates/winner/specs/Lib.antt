pub mod Winner
pub mod Steps
