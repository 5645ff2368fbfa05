-- The laws that the proofs of `cabbook_messages` cite. Assumes nothing.
pub mod WordLaws
