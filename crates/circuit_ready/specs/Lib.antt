pub mod Routers
pub mod Steps
