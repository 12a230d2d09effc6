pub mod RowIds
pub mod Chains
pub mod Listings
pub mod Pasts
