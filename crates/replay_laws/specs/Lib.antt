-- What the laws of replays speak of. Assumes nothing.
pub mod Encoding
pub mod Refinement
pub mod Replays
pub mod Tells
