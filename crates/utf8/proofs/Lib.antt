-- The laws that the proofs of `utf8` and of the crates above it cite. Assumes nothing.
pub mod Chars
pub mod Chains
