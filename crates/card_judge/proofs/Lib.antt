-- The laws that the proofs of `card_judge` cite. Assumes nothing.
pub mod JudgeLaws
pub mod CardLaws
pub mod SettleLaws
