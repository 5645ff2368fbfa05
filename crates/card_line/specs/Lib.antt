-- The definitions that the contracts of `card_line` cite. Assumes nothing.
pub mod Parts
