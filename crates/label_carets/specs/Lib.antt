-- The definitions that the contracts of `label_carets` cite. Assumes nothing.
pub mod Encoded
pub mod Decoded
