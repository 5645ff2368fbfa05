-- The definitions that the contracts of `console_entries` cite. Assumes nothing.
pub mod Rooms
pub mod Entries
