-- The laws that the proofs of `console_merge` cite. Assumes nothing.
pub mod MergeLaws
