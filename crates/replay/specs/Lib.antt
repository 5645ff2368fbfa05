-- The definitions that the contracts of `replay` cite. Assumes nothing.
pub mod Outcome
