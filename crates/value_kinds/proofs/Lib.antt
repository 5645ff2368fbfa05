-- The laws that the proofs of `value_kinds` and of the crates above it cite. Assumes nothing.
pub mod ShapeLaws
pub mod QuietLaws
pub mod PairLaws
