-- Short words as numbers, so that a table of them is searched by numbers.
pub mod Packing
