-- The laws that the proofs of `replay` cite. Assumes nothing.
pub mod RunLaws
pub mod OutcomeLaws
