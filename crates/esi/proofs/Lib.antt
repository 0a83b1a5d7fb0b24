-- Laws: digits, the places of a text, and what the crates above cite.
pub mod Digits
pub mod Places
pub mod Laws
