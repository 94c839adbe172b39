-- What a model line says, what reading it answers and what it leaves in the lent buffers; `inner` has words of inner
-- contracts.
pub mod Signs
pub mod Line
pub mod Answers
pub mod Unique
pub mod inner
