-- The definitions that the contracts of `program_host` cite. Assumes nothing.
pub mod Numbers
