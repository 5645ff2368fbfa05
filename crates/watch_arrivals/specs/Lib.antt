-- The definitions that the contracts of `watch_arrivals` cite. Assumes nothing.
pub mod Arrivals
