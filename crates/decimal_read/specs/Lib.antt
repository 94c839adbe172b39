-- The text of a number, and the number that it stands for; `inner` has a word of inner contracts.
pub mod Text
pub mod inner
