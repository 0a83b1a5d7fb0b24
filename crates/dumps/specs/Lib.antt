pub mod Dumps
pub mod Reads
pub mod Answers
