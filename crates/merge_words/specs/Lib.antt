-- The words of REFERENCE, Two edits of one card. Assumes nothing.
pub mod Lists
pub mod Pids
pub mod Sources
pub mod Sides
pub mod ByLines
pub mod Stands
