-- Worked examples of the ledger. Assumes nothing.
pub mod Examples
pub mod AnswerLaws
