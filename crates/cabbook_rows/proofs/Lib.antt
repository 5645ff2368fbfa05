-- The laws that the proofs of `cabbook_rows` cite. Assumes nothing.
pub mod PartLaws
pub mod FaultLaws
