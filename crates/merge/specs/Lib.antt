-- The definitions that the contracts of `merge` cite. Assumes nothing.
pub mod Paired
pub mod Sides
pub mod Plans
pub mod Outcome
