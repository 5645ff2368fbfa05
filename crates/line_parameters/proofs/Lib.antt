-- What the reading of a line accepts and finds, and what the proofs of `line_parameters` cite. Assumes nothing.
pub mod FirstSteps
pub mod Pieces
pub mod Sound
pub mod Complete
pub mod Law
pub mod PlacesLaw
pub mod FirstLaw
