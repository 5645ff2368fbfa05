-- The laws that the proofs of `desk_slots` and the crates above cite. Assumes nothing.
pub mod SoundLaws
pub mod SlotLaws
pub mod LookLaws
