-- The definitions that the contracts and laws of `line_parameters` cite. Assumes nothing.
pub mod First
pub mod Placed
pub mod Found
pub mod Whole
