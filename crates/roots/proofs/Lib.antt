-- Laws over plain numbers, on which the functions' proofs rest.
pub mod Bits
pub mod Judged
