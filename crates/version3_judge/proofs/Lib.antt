-- The laws that the proofs of `version3_judge` and of the crates above it cite. Assumes nothing.
pub mod JudgeLaws
pub mod WalkLaws
