-- The laws that the proofs of `folder_line` and of the crates above it cite. Assumes nothing.
pub mod PieceLaws
pub mod Turns
pub mod FullLaws
pub mod Puts
