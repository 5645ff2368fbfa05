-- The laws that the proofs of `watch` and of the crates above it cite. Assumes nothing.
pub mod SoundLaws
pub mod ArriveLaws
pub mod FaultLaws
pub mod EndLaws
pub mod ReachLaws
pub mod OutcomeLaws
