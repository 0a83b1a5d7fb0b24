-- Laws of answer lines.
pub mod Laws
