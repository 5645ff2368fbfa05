-- The definitions that the contracts of `cabbook_reasons` cite. Assumes nothing.
pub mod Reasons
