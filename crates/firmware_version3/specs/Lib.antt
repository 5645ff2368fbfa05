-- The definitions that the contracts of `firmware_version3` cite. Assumes nothing.
pub mod Answers
