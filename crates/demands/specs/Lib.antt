-- What the demands say, and the marked examples. Assumes nothing.
pub mod Examples
pub mod Demand1
pub mod Demand2
pub mod Labels
pub mod Demand4
pub mod Demand5
pub mod Demand10
pub mod Demand13
pub mod Demands
