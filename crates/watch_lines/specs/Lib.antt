-- The definitions that the contracts of `watch_lines` cite. Assumes nothing.
pub mod Parting
pub mod Values
pub mod Taking
