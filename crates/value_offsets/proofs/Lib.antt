-- The laws that the proofs of `value_offsets` share. Assumes nothing.
pub mod SignedLaws
