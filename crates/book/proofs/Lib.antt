pub mod Chains
pub mod Entries
pub mod Inserts
pub mod Lookups
pub mod Readings
pub mod Heads
pub mod Finds
