-- The definitions that the contracts of `version3` cite. Assumes nothing.
pub mod Card
pub mod Places
pub mod Outcome
