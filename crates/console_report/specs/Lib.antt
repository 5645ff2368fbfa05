-- The definitions that the contracts of `console_report` cite. Assumes nothing.
pub mod ReportAnswers
