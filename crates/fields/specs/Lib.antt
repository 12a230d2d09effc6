pub mod Fields
pub mod Pairs
pub mod Laws
pub mod Steps
pub mod Writing
