-- The definitions that the contracts of `firmware_watch` cite. Assumes nothing.
pub mod Answers
