-- The examples, proved. Assumes nothing.
pub mod Examples
