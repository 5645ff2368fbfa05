-- The definitions that the contracts of `watch` cite. Assumes nothing.
pub mod Octets
pub mod State
pub mod Outcome
