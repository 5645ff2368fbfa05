-- The definitions that the contracts of `version3_text` cite. Assumes nothing.
pub mod Renewed
