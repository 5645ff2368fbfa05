-- The definitions that the contracts of `firmware_bench` cite. Assumes nothing.
pub mod Answers
pub mod Calls
