-- The definitions that the contracts of `desk_pool` cite. Assumes nothing.
pub mod Pools
