-- The laws that the proofs of `version3_line` and of the crates above it cite. Assumes nothing.
pub mod LineLaws
pub mod BoundLaws
