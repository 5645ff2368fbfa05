-- The definitions that the laws of folding cite. Assumes nothing.
pub mod Cuttings
pub mod Foldings
pub mod Physical
pub mod Written
