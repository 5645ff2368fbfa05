-- The definitions that the contracts of `report_weights` cite. Assumes nothing.
pub mod Counts
pub mod Parts
