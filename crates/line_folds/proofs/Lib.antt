-- The laws that the proofs of `line_folds` and of the crates above it cite. Assumes nothing.
pub mod FoldLaws
pub mod HopLaws
pub mod QuickLaws
pub mod LineLaws
pub mod SpanLaws
pub mod PlaceLaws
