-- Labels, as RFC 6350 and RFC 6868 draw them. Assumes nothing.
pub mod Reads
