-- The definitions that the contracts of `label_marks` cite. Assumes nothing.
pub mod Seen
