-- A list of pairs: the words of inner contracts.
pub mod inner
