-- Laws on frames for the crates above, and those that the function's proof cites.
pub mod Laws
mod Answers
