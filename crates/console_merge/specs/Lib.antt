-- The definitions that the contracts of `console_merge` cite. Assumes nothing.
pub mod MergeAnswers
