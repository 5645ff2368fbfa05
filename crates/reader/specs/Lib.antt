-- The definitions that the contracts of `reader` cite. Assumes nothing.
pub mod Outcome
