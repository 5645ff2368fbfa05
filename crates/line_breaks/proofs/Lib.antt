-- The laws that the proofs of `line_breaks` and of the crates above it cite. Assumes nothing.
pub mod EndLaws
