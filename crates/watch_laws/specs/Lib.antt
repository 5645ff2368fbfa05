-- What the laws of this crate speak of. Assumes nothing.
pub mod Altids
pub mod Cuttings
