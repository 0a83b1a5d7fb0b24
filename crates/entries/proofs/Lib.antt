mod Stores
pub mod Lookups
