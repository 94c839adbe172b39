-- The lines that quote what they were given; `laws` has what follows.
pub mod Quotes
pub mod laws
