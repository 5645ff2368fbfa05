-- The definitions that the contracts of `console_desk` cite. Assumes nothing.
pub mod DeskAnswers
