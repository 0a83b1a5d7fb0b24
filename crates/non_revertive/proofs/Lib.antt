mod Members
mod Losing
mod Pair
mod Named
mod Octets
pub mod NonRevertive
