-- The desk refines the ledger, and no upload interferes with another. Assumes nothing.
pub mod LedgerRows
pub mod Patched
pub mod Counts
pub mod Relation
pub mod Refinement
pub mod Noninterference
pub mod Joins
pub mod Reclaims
pub mod Following
pub mod Granted
pub mod GrantedOnly
pub mod Demand
pub mod PoolNoninterference
pub mod Chunks
