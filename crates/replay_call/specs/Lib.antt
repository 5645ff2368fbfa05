-- The definitions that the contracts of `replay_call` cite. Assumes nothing.
pub mod Stepped
