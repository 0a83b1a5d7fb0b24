-- Laws of which turn a record's is, and of whether it is taken.
pub mod Laws
mod Turns
