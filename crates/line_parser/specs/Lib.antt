-- The definitions that the contracts of `line_parser` cite. Assumes nothing.
pub mod Parse
pub mod Grammar
pub mod Rule
pub mod Places
pub mod AtFault
