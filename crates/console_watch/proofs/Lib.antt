-- The laws that the proofs of `console_watch` cite. Assumes nothing.
pub mod WatchLaws
