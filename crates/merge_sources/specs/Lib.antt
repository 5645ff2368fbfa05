-- The definitions that the contracts of `merge_sources` cite. Assumes nothing.
pub mod Row
