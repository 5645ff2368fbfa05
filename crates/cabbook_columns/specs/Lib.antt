-- The definitions that the contracts of `cabbook_columns` cite. Assumes nothing.
pub mod Columns
