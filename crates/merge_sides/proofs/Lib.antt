-- The laws that the proofs of `merge_sides` cite. Assumes nothing.
pub mod Walks
