-- The laws that the proofs of `text_marks` and of the crates above it cite. Assumes nothing.
pub mod SeenLaws
pub mod PairLaws
