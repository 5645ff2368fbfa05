-- The laws of this crate. Assumes nothing.
pub mod AltidLaws
pub mod Parts
pub mod Cuttings
