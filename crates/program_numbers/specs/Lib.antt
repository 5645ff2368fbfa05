-- The definitions that the contracts of `program_numbers` cite. Assumes nothing.
pub mod Alike
pub mod Decimal
pub mod Hex
