-- The declarative statements of the reader's laws. Assumes nothing.
pub mod Lone
