-- The definitions that the contracts of `version3_parameters` cite. Assumes nothing.
pub mod Params
pub mod Places
