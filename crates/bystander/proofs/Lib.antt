pub mod Members
pub mod Fewer
pub mod Bystander
