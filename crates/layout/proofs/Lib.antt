pub mod Words
pub mod Addresses
