-- The laws that the proofs of `text_escaping` and of the crates above it cite. Assumes nothing.
pub mod CodedLaws
pub mod LengthLaws
