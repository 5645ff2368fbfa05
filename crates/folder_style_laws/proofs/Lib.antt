-- The laws of lines in a style. Assumes nothing.
pub mod ByParts
pub mod NameLaws
pub mod CardLaws
pub mod TwiceLaws
pub mod RereadLaws
