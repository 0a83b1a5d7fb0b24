pub mod Admitted
mod Passed
