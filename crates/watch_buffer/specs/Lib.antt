-- The definitions that the contracts of `watch_buffer` cite. Assumes nothing.
pub mod Buffer
