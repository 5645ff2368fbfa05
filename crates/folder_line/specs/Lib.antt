-- The definitions that the contracts of `folder_line` cite. Assumes nothing.
pub mod Pieces
