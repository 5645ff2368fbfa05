-- The definitions that the contracts of `cabbook_rows` cite. Assumes nothing.
pub mod Rows
pub mod Under
pub mod Values
pub mod Faults
