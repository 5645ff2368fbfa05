-- The laws that the proofs of `watch_lines` and of the crates above it cite. Assumes nothing.
pub mod PartingLaws
pub mod TakingLaws
pub mod RunLaws
