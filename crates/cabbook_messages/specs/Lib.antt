-- The definitions that the contracts of `cabbook_messages` cite. Assumes nothing.
pub mod Words
pub mod Sentences
pub mod Wants
