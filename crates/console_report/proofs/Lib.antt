-- The laws that the proofs of `console_report` cite. Assumes nothing.
pub mod KeptLaws
