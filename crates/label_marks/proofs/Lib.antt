-- The laws that the proofs of `label_marks` and of the crates above it cite. Assumes nothing.
pub mod UnitLaws
