-- The laws that the proofs of `card_line` and of the crates above it cite. Assumes nothing.
pub mod PartLaws
