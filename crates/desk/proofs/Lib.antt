-- The laws that the proofs of `desk` and the crates above cite. Assumes nothing.
pub mod DeskLaws
