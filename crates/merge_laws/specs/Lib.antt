-- What the laws of this crate speak of. Assumes nothing.
pub mod Plans
pub mod Demand11
