pub mod Numbers
pub mod Windows
pub mod Runs
pub mod Records
