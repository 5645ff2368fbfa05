-- The definitions that the contracts of `cabbook_tables` cite. Assumes nothing.
pub mod Fields
pub mod Statuses
pub mod Uploads
