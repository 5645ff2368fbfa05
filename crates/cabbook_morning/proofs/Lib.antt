-- The laws that the proofs of `cabbook_morning` cite. Assumes nothing.
pub mod TurnLaws
pub mod ReasonLaws
