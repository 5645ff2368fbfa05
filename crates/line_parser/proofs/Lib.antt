-- The laws that the proofs of `line_parser` cite. Assumes nothing.
pub mod ParseLaws
pub mod PartLaws
pub mod Steps
pub mod FaultSteps
pub mod Inside
