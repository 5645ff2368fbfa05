-- The laws that the routines cite. Assumes nothing.
pub mod Places
pub mod Lows
