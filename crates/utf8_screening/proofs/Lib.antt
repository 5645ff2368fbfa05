-- The laws that the proofs of `utf8_screening` and of the crates above it cite. Assumes nothing.
pub mod PlainLaws
