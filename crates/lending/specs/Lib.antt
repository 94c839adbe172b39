-- The board beside two lent slices; the calls over any slices; and boards as calls leave them.
pub mod Rest
pub mod Lending
pub mod Reached
pub mod inner
pub mod OfModel
