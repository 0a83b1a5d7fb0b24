-- Laws of the run, and of its start and its end.
pub mod Runs
