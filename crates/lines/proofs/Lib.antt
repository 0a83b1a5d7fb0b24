-- Laws on the pieces of a line and on putting them into a buffer, for the crates above; and a law for the step of the code.
pub mod Laws
mod Steps
