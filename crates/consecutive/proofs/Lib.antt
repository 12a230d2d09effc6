pub mod Keeps
pub mod Steps
pub mod Admits
pub mod Spreads
pub mod Draws
