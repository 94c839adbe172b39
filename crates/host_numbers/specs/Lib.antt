-- A buffer filled from its start.
pub mod Filled
