-- The definitions that the contracts of `console_watch` cite. Assumes nothing.
pub mod WatchAnswers
