-- What demand 3 says, what a granted call does, and octets added chunk by chunk. Assumes nothing.
pub mod Demand
pub mod Granted
pub mod Chunks
