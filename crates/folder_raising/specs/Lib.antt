-- The definitions that the contract of `folder_raising` cites. Assumes nothing.
pub mod Letters
pub mod Walk
