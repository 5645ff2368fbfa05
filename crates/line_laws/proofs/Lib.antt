-- Which lines are refused with which number, and examples of lines. Assumes nothing.
pub mod FaultSound
pub mod FaultComplete
pub mod FirstLaws
pub mod Examples
pub mod LinedLaws
pub mod PlacedLaws
