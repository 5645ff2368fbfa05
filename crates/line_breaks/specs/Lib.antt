-- The definitions that the contracts of `line_breaks` cite. Assumes nothing.
pub mod Lone
