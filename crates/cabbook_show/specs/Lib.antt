-- The definitions that the contracts of `cabbook_show` cite. Assumes nothing.
pub mod Records
