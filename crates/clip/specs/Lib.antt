-- The rules of clipping, file by file; `inner` has words of inner contracts, and `laws` what follows.
pub mod Numbers
pub mod Limits
pub mod Record
pub mod Clip
pub mod inner
pub mod laws
pub mod OfRefusal
