-- The laws that the proofs of `reader` cite. Assumes nothing.
pub mod AcceptLaws
pub mod CopyUnfolds
pub mod LinesAgain
pub mod ReadLaws
