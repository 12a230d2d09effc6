pub mod Cuts
pub mod Fronts
pub mod Numbers
pub mod Walks
pub mod Writes
pub mod Composes
