pub mod Judging
pub mod Listing
pub mod Reports
pub mod Words
