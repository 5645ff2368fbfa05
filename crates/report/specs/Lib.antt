-- The definitions that the contracts of `report` cite. Assumes nothing.
pub mod Answer
pub mod Steps
pub mod Text
