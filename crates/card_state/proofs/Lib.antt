-- The state of a card and how it is kept. Assumes nothing.
pub mod KeptLaws
