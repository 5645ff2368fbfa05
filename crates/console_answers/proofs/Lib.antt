-- The laws that the proofs of `console_answers` cite. Assumes nothing.
pub mod Words
pub mod SignedLaws
