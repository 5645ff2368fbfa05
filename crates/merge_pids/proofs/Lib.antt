-- The laws that the proofs of `merge_pids` cite. Assumes nothing.
pub mod NumberLaws
pub mod MarkLaws
pub mod ValueLaws
pub mod ParamLaws
