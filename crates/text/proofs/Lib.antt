-- The laws that the proofs of `text` and of the crates above it cite. Assumes nothing.
pub mod OutcomeLaws
