pub mod Plays
pub mod Records
