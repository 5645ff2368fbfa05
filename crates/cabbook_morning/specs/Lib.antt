-- The definitions that the contracts of `cabbook_morning` cite. Assumes nothing.
pub mod Depot
pub mod Options
pub mod Turns
