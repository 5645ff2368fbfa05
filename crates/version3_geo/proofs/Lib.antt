-- The laws that the proofs of `version3_geo` and of the crates above it cite. Assumes nothing.
pub mod GeoLaws
