-- The definitions that the contracts of `property_table` cite. Assumes nothing.
pub mod Rows
