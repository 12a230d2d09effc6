pub mod Bits
pub mod Denials
pub mod Rows
pub mod Index
pub mod Model
