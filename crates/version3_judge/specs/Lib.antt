-- The definitions that the contracts of `version3_judge` cite. Assumes nothing.
pub mod Judge
