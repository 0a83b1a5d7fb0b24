-- Laws of turns.
pub mod Laws
