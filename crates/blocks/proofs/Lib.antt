-- Laws of the blocks that a run is taken in.
pub mod Blocks
