-- The definitions that the contracts of `utf8_screening` cite. Assumes nothing.
pub mod Plain
