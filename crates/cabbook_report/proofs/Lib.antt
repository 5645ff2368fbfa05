-- The laws that the proofs of `cabbook_report` cite. Assumes nothing.
pub mod BarLaws
