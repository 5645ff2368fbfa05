-- The laws that the proofs of `value_automaton` and of the crates above it cite. Assumes nothing.
pub mod StepLaws
pub mod TableLaws
pub mod FixedLaws
pub mod FrameLaws
pub mod UriLaws
