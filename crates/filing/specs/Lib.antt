-- The cards of a file of models, filed one after the other; `inner` has words of inner contracts.
pub mod Filed
pub mod Unique
pub mod inner
