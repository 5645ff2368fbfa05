-- The laws of replays. Assumes nothing.
pub mod EveryList
pub mod UnwrittenLaws
pub mod VerdictLaws
pub mod SmallLaws
pub mod Refinement
pub mod TellLaws
pub mod Replays
