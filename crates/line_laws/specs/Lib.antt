-- The faults of a line, the first of them, and raw lines and logical lines, in plain words. Assumes nothing.
pub mod Faults
pub mod FirstFault
pub mod Lined
