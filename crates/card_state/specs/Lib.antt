-- The definitions that the contracts of `card_state` cite. Assumes nothing.
pub mod State
pub mod Kept
