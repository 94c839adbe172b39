pub mod Currents
pub mod inner
pub mod laws
