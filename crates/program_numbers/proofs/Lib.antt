-- The laws that the proofs of `program_numbers` and of the crates above it cite. Assumes nothing.
pub mod ListLaws
pub mod NumberLaws
pub mod HexLaws
pub mod ReadBack
