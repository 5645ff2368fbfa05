-- The definitions that the contracts of `merge_pids` cite. Assumes nothing.
pub mod Numbers
pub mod Marks
