-- What the laws of this crate speak of. Assumes nothing.
pub mod Values
pub mod Cards
pub mod Inputs
pub mod Refusals
pub mod Records
pub mod Editions
