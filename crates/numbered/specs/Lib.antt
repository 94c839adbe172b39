-- The numbers among a line's words.
pub mod Numbers
