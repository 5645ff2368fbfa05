-- The definitions that the contracts of `replay_log` cite. Assumes nothing.
pub mod Names
pub mod Logs
