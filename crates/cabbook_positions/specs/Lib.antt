-- The definitions that the contracts of `cabbook_positions` cite. Assumes nothing.
pub mod Positions
pub mod Components
