-- The numbers with names, as definitions: limits, refusals, properties, kinds of value, fields of a record and counts of a report. Assumes nothing.
pub mod Limits
pub mod Refusals
pub mod Listed
pub mod Properties
pub mod Kinds
pub mod Fields
pub mod Counts
pub mod Distinct
