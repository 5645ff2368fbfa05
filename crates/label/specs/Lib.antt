-- The definitions that the contracts of `label` cite. Assumes nothing.
pub mod Outcomes
