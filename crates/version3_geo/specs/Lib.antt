-- The definitions that the contracts of `version3_geo` cite. Assumes nothing.
pub mod Floats
