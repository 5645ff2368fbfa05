-- The definitions that the contracts of `value_offsets` cite. Assumes nothing.
pub mod Minutes
