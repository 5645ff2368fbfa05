-- The definitions that the laws of lines in a style cite. Assumes nothing.
pub mod Capitals
