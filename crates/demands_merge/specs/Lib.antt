-- The worked examples. Assumes nothing.
pub mod Examples
