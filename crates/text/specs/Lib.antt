-- The definitions that the contracts of `text` cite. Assumes nothing.
pub mod Screened
pub mod Outcomes
