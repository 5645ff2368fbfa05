-- The laws that the proofs of `desk_pool` and the crates above cite. Assumes nothing.
pub mod Patches
