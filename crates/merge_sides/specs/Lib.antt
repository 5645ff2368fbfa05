-- The definitions that the contracts of `merge_sides` cite. Assumes nothing.
pub mod Lines
pub mod Sources
pub mod Marks
