-- The laws that the proofs of `property_table` and of the crates above it cite. Assumes nothing.
pub mod RowLaws
pub mod Letters
