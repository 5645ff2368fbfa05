-- The laws that the proofs of `cabbook_cells` cite. Assumes nothing.
pub mod RangeLaws
pub mod CellLaws
