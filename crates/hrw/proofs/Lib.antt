-- Laws on the CRC, the digest and the weight for the crates above, and what they rest on.
mod Xor
pub mod Laws
mod Words
mod Ties
