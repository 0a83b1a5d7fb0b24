pub mod Checks
pub mod Lists
