-- The laws of labels. Assumes nothing.
pub mod ReadsLaws
pub mod QuotedLaws
pub mod BackLaws
