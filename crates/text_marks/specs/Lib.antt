-- The definitions that the contracts of `text_marks` cite. Assumes nothing.
pub mod Marks
pub mod Seen
pub mod Pairs
pub mod Tallies
