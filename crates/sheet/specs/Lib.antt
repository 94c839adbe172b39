-- What is printed: texts, digits, lines; `laws` has what follows.
pub mod Text
pub mod Digits
pub mod Lines
pub mod Unique
pub mod laws
