-- Numbers in decimal digits with a power of ten, and the words of 64 bits that stand for them.
pub mod Decimal
