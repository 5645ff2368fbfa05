-- The laws that the proofs of `version3_text` and of the crates above it cite. Assumes nothing.
pub mod RenewLaws
pub mod MarkLaws
pub mod PutLaws
pub mod SoughtLaws
