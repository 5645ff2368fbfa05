-- The laws that the proofs of `text_unescaping` and of the crates above it cite. Assumes nothing.
pub mod UnescapeLaws
pub mod PairLaws
pub mod BareLaws
pub mod MeasureLaws
