-- The laws that the proofs of `reader_walk` and of the crates above it cite. Assumes nothing.
pub mod WalkLaws
pub mod ScratchLaws
