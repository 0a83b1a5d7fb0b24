-- Laws of the ranges, for the crates above.
pub mod Laws
