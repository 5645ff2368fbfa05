-- The definitions that the contracts of `octets` cite. Assumes nothing.
pub mod Pick
pub mod Ascii
pub mod Scan
pub mod Room
pub mod Classes
pub mod Cases
pub mod Counts
pub mod Slices
pub mod Tables
