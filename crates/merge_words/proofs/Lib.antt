-- The laws that tie the words to what reading a card leaves. Assumes nothing.
pub mod Members
pub mod NumberLaws
pub mod PidLists
pub mod MarkLaws
pub mod RoomLaws
pub mod StandLaws
pub mod RowLaws
pub mod SourceLaws
pub mod ReadLaws
pub mod SideLaws
