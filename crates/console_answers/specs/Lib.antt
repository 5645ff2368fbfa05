-- The definitions that the contracts of `console_answers` cite. Assumes nothing.
pub mod Texts
