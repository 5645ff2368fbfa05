-- The laws of this crate. Assumes nothing.
pub mod Parts
pub mod Places
pub mod Totals
pub mod Bounds
pub mod Sums
pub mod Rows
pub mod Reports
