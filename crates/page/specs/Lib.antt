-- A page that is filled from its start; `laws` has what follows.
pub mod Page
pub mod Unique
pub mod laws
