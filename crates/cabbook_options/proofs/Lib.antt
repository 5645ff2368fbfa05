-- The laws that the proofs of `cabbook_options` cite. Assumes nothing.
pub mod NameLaws
