-- The definitions that the contracts of `desk_slots` cite. Assumes nothing.
pub mod Sound
pub mod Slots
