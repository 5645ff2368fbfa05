-- The laws that the proofs of `replay_call` cite. Assumes nothing.
pub mod CallLaws
