-- The laws that the proofs of `folder` and of the crates above it cite. Assumes nothing.
pub mod Accepted
pub mod TextLaws
pub mod BoundLaws
pub mod FitLaws
pub mod RunLaws
