-- The laws that the proofs of `replay_log` and the crates above cite. Assumes nothing.
pub mod LogLaws
