-- The laws that the proofs of `watch_buffer` and of the crates above it cite. Assumes nothing.
pub mod BufferLaws
