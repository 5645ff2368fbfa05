-- What a card of version 3 says, and what becomes of it. Assumes nothing.
pub mod Says
pub mod Floats
pub mod Params
pub mod Lines
pub mod Cards
pub mod Refusals
pub mod Keeps
pub mod Examples
