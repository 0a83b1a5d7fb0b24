pub mod Laws
pub mod Criteria
