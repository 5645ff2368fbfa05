-- The laws of this crate. Assumes nothing.
pub mod ValueLaws
pub mod Flags
pub mod Known
pub mod InstanceLaws
pub mod LineLaws
pub mod BegunLaws
pub mod Runs
pub mod Walks
pub mod PairedLaws
pub mod FoldLaws
pub mod Accepted
pub mod RecordLaws
pub mod Refused
pub mod OctetLaws
pub mod Numbers
pub mod EditionLaws
