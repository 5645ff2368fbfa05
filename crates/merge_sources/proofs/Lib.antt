-- The laws that the proofs of `merge_sources` cite. Assumes nothing.
pub mod Searches
