-- The definitions that the contracts of `desk_entries` cite. Assumes nothing.
pub mod Entries
pub mod Search
pub mod Ticks
