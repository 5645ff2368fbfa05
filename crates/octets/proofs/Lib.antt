-- The laws that the proofs of `octets` and of the crates above it cite. Assumes nothing.
pub mod Bools
pub mod BitLaws
pub mod Upto
pub mod TableLaws
pub mod Runs
pub mod Masks
pub mod Marks
pub mod Scans
pub mod CaseLaws
pub mod Copies
pub mod RoomLaws
pub mod Writes
pub mod PieceLaws
pub mod CountLaws
