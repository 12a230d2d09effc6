pub mod Sessions
pub mod Prints
