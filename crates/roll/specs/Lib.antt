-- A directory's names; `inner` has the words of inner contracts.
pub mod Directory
pub mod inner
