-- The definitions that the contracts of `program_files` cite. Assumes nothing.
pub mod Inputs
