-- The definitions that the contracts of `merge_partners` cite. Assumes nothing.
pub mod Keys
pub mod Heads
pub mod Pairs
