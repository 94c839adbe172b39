-- The bytes that a word spells in hex digits.
pub mod Hex
pub mod Unique
