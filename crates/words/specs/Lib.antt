-- The words of a line; `inner` has the words of inner contracts, `laws` what follows.
pub mod Words
pub mod inner
pub mod laws
