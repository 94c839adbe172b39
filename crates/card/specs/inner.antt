-- What callers may count on.
pub mod Worked
