-- The laws that the proofs of `program_visible` cite. Assumes nothing.
pub mod VisibleLaws
