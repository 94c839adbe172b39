-- What follows from the definitions of the lines and of their digits.
pub mod LinesFit
pub mod DigitsSpell
