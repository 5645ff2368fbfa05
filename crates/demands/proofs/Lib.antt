-- The demands, proved by the laws of the crates below. Assumes nothing.
pub mod Tested
pub mod Examples
pub mod Refusing
pub mod Texts
pub mod Cards
pub mod Desks
pub mod Reports
pub mod Exact
pub mod Labels
pub mod Dates
pub mod Octets
pub mod Editions
pub mod Versions
pub mod Total
pub mod Whole
