-- The shortest form of a word; `inner` has the words of the search, `laws` what follows.
pub mod First
pub mod Form
pub mod inner
pub mod laws
