-- The definitions that the contracts of `program_visible` cite. Assumes nothing.
pub mod Visible
