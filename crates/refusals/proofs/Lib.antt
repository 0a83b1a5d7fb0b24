-- Laws of the refusal numbers.
pub mod Laws
