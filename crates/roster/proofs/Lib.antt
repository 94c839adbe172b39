mod Insertion
mod Listing
pub mod Tells
