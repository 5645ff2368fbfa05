-- The laws that the proofs of `cabbook_positions` cite. Assumes nothing.
pub mod PositionLaws
pub mod ComponentLaws
