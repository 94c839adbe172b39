-- What follows from the definition: what the first number of a test is, and that a form is the shortest.
pub mod Firsts
pub mod Least
