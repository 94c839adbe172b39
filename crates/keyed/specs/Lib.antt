-- The keys of a line with their numbers; `inner` has words of inner contracts.
pub mod Keyed
pub mod inner
