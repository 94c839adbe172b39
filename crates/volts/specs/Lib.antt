-- The range of voltages and how they are kept; `laws` has what follows.
pub mod Volts
pub mod laws
