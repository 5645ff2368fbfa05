-- The laws of this crate. Assumes nothing.
pub mod Lists
pub mod Partners
pub mod Joining
pub mod Walks
pub mod Entering
pub mod Lines
pub mod Sources
pub mod Keys
pub mod Demanded
pub mod Passing
pub mod Pairing
pub mod Demand11
