-- The shape that four branches share, exact products as fractions, and voltages exchanged.
pub mod Diode
pub mod Fraction
pub mod Exchange
