mod Laws
mod Given
