pub mod Arrays
pub mod Printing
