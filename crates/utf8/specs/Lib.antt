-- The definitions that the contracts of `utf8` cite. Assumes nothing.
pub mod Characters
pub mod Rfc3629
