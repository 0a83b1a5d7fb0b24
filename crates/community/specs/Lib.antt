pub mod Community
pub mod Search
