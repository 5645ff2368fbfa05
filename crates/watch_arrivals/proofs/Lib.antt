-- The laws that the proofs of `watch_arrivals` and of the crates above it cite. Assumes nothing.
pub mod ArrivalLaws
