-- The definitions that the laws of this crate speak of. Assumes nothing.
pub mod Texts
