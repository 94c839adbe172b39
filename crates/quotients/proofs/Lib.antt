-- Laws over plain numbers, on which the functions' proofs rest.
pub mod Shifts
pub mod Signs
pub mod Parts
