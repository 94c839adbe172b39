-- Laws over plain values that the proofs of functions cite.
mod Parts
