pub mod Places
pub mod Waiting
pub mod Order
pub mod Queue
