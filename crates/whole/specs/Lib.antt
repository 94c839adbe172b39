-- Signed numbers, floors and powers of two; `laws` has what follows from them.
pub mod Signed
pub mod Floor
pub mod Scale
pub mod laws
