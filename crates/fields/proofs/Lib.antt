pub mod Past
pub mod Scans
pub mod Placings
