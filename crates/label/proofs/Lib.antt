-- The laws that the proofs of `label` and of the crates above it cite. Assumes nothing.
pub mod OutcomeLaws
