-- The laws that the proofs of `merge` and of `merge_laws` cite. Assumes nothing.
pub mod SettleLaws
pub mod WriteLaws
pub mod EnterLaws
pub mod OutcomeLaws
