-- The definitions that the contracts of `console_words` cite. Assumes nothing.
pub mod Words
