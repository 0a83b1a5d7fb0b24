-- Laws on octets for the crates above.
pub mod Laws
