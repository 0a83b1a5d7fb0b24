mod Begun
mod Told
