-- Whom a command asks, and by which numbers.
pub mod Asks
pub mod Numbers
