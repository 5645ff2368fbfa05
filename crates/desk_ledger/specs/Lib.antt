-- Answers in document 01's numbers, the plain ledger, uploads, the ledger with ticks, and a desk with its pool under a list of calls. Assumes nothing.
pub mod Answers
pub mod Ledger
pub mod Uploads
pub mod Ticks
pub mod Desks
