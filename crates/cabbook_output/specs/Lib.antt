-- The definitions that the contracts of `cabbook_output` cite. Assumes nothing.
pub mod Ends
