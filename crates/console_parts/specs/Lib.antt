-- The definitions that the contracts of `console_parts` cite. Assumes nothing.
pub mod Parts
