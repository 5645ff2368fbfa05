-- The definitions that the contracts of `cabbook_cells` cite. Assumes nothing.
pub mod Ranges
pub mod Cells
