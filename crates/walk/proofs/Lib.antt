pub mod Views
pub mod Notes
pub mod Keeps
pub mod Draws
pub mod Stopped
