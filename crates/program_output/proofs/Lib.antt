-- The laws that the proofs of `program_output` and of the crates above it cite. Assumes nothing.
pub mod PageLaws
pub mod Decimals
