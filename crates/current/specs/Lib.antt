-- Signed numbers by their size, and ticks in picoamperes.
pub mod Current
