-- The definitions that the contracts of `version3_line` cite. Assumes nothing.
pub mod Lines
