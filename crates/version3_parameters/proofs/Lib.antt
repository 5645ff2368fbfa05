-- The laws that the proofs of `version3_parameters` and of the crates above it cite. Assumes nothing.
pub mod ValueLaws
pub mod RestLaws
pub mod OneLaws
pub mod EachLaws
