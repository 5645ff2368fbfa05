-- The laws that the proofs of `console_parts` cite. Assumes nothing.
pub mod PartLaws
