-- The kinds of value and the rows of properties, tied to the plain words. Assumes nothing.
pub mod DeadLaws
pub mod Places
pub mod KindLaws
pub mod HighLaws
pub mod Plain
pub mod Escapes
pub mod Pairs
pub mod DayLaws
pub mod DateWords
pub mod OffsetLaws
pub mod DateTable
pub mod RowLaws
pub mod NewLaws
pub mod ChoiceLaws
pub mod LineKindLaws
