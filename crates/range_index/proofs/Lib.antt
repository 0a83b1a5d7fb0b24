-- Laws of the index of ranges, for the crates above.
pub mod Laws
