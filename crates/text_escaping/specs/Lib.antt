-- The definitions that the contracts of `text_escaping` cite. Assumes nothing.
pub mod Escaped
pub mod Coded
