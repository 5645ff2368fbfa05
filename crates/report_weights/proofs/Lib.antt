-- The laws that the proofs of `report_weights` and of the crates above it cite. Assumes nothing.
pub mod PlaceLaws
pub mod PartLaws
