-- The laws that the proofs of `cabbook_reasons` cite. Assumes nothing.
pub mod MarkLaws
