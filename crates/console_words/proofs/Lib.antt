-- The laws that the proofs of `console_words` and of the crates above it cite. Assumes nothing.
pub mod WordLaws
