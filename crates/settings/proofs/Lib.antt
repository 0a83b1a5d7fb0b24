-- Laws of the settings, for the crates above.
pub mod Laws
