-- The line that is written for a card, what writing it answers and what it leaves in the lent buffer; `inner` has words
-- of inner contracts.
pub mod Text
pub mod Answers
pub mod Unique
pub mod inner
