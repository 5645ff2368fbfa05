-- The laws that the proofs of `desk_entries` and of the crates above it cite. Assumes nothing.
pub mod Searches
