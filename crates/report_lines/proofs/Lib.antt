-- The laws that the proofs of `report_lines` and of the crates above it cite. Assumes nothing.
pub mod HeadLaws
pub mod CountLaws
