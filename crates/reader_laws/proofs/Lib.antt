-- The laws of the reader. Assumes nothing.
pub mod LoneLaws
pub mod Anywhere
pub mod SameLines
pub mod CopyAgain
