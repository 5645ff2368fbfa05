-- The definitions that the contracts of `replay_script` cite. Assumes nothing.
pub mod Names
pub mod Numerals
pub mod Scripts
pub mod Counts
