-- A node summed up: the words of inner contracts.
pub mod inner
