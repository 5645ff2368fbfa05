-- The laws that the proofs of `replay_script` and the crates above cite. Assumes nothing.
pub mod NumeralLaws
pub mod ScriptLaws
