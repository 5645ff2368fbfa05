-- The definitions that the contracts of `cabbook_options` cite. Assumes nothing.
pub mod Names
pub mod Words
