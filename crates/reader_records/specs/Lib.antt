-- The definitions that the contracts of `reader_records` cite. Assumes nothing.
pub mod Records
