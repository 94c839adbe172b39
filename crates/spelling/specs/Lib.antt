-- The number that a word spells, and the digits that spell one; and the bytes of a text that is written out.
pub mod Bytes
pub mod Digits
pub mod Number
pub mod Unique
