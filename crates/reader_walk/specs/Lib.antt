-- The definitions that the contracts of `reader_walk` cite. Assumes nothing.
pub mod Walk
