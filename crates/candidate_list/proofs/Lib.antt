mod Orders
mod Loads
mod Taken
mod Among
