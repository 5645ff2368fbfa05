-- Text with escapes, as REFERENCE, Escaping draws it. Assumes nothing.
pub mod Stands
