pub mod Backup
pub mod Steps
