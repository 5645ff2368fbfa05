-- The laws that the proofs of `reader_records` and of the crates above it cite. Assumes nothing.
pub mod PutLaws
pub mod RecordLaws
