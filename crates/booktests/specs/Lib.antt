pub mod Twigs
