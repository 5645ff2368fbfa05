-- The laws that the proofs of `merge_partners` cite. Assumes nothing.
pub mod JoinLaws
pub mod WalkLaws
pub mod HeadLaws
pub mod NewLaws
