-- The laws that the proofs of `report` and of the crates above it cite. Assumes nothing.
pub mod StepLaws
pub mod PageLaws
pub mod TextLaws
