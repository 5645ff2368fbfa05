-- The definitions that the contracts of `cabbook_report` cite. Assumes nothing.
pub mod Bars
