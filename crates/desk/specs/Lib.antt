-- The definitions that the contracts of `desk` cite. Assumes nothing.
pub mod Answer
pub mod Steps
