-- The laws that the proofs of `label_carets` and of the crates above it cite. Assumes nothing.
pub mod PairLaws
pub mod EncodeLaws
