-- The laws that the proofs of `console_requests` and of the crates above it cite. Assumes nothing.
pub mod NameLaws
pub mod RequestLaws
pub mod Untouched
