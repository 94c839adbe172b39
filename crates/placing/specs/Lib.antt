pub mod inner
pub mod laws
