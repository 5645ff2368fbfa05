-- The law of the numbers. Assumes nothing.
pub mod Distinct
pub mod Listed
pub mod Reasons
