-- The definitions that the contracts of `text_unescaping` cite. Assumes nothing.
pub mod Unescaped
pub mod Measured
