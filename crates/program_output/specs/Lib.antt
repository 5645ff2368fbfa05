-- The definitions that the contracts of `program_output` cite. Assumes nothing.
pub mod Pages
pub mod Digits
