-- The definitions that the contracts of `line_folds` cite. Assumes nothing.
pub mod Folds
pub mod Places
pub mod Logical
