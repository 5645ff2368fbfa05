-- The definitions that the contracts of `console_requests` cite. Assumes nothing.
pub mod Names
pub mod Requests
