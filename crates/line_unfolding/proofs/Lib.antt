-- The laws that the proofs of `line_unfolding` and of the crates above it cite. Assumes nothing.
pub mod RunLaws
pub mod CountLaws
pub mod PutLaws
