-- Laws over plain numbers, on which the functions' proofs rest.
pub mod Halves
pub mod Shifts
