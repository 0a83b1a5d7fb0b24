pub mod Reserved
pub mod Text
