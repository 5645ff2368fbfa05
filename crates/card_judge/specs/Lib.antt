-- The definitions that the contracts of `card_judge` cite. Assumes nothing.
pub mod Judge
