-- The laws that the proofs of `version3` and of the crates above it cite. Assumes nothing.
pub mod CardLaws
pub mod OutcomeLaws
pub mod PlaceLaws
