pub mod Meaning
pub mod Ids
pub mod Hex
