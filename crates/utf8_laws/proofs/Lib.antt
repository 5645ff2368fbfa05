-- The laws stand in Utf8; Starts and Walks are their helpers. Assumes nothing.
pub mod Starts
pub mod Walks
pub mod Utf8
