-- The definitions that the contracts of `firmware` cite. Assumes nothing.
pub mod Word
