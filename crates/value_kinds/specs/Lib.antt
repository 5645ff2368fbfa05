-- The definitions that the contracts of `value_kinds` cite. Assumes nothing.
pub mod Octets
pub mod Shapes
pub mod Dates
pub mod Kinds
pub mod AtOnce
pub mod ByPairs
