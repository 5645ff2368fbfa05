-- The laws that the proofs of `console_entries` cite. Assumes nothing.
pub mod Kept
pub mod RoomLaws
