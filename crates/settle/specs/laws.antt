-- What follows from the first that overloads, from what totals gain, and from what is held.
pub mod Firsts
pub mod Changes
pub mod Renewals
