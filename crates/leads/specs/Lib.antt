pub mod Ohm
