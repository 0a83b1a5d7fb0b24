pub mod Numbers
pub mod Bools
pub mod Checks
pub mod Lists
