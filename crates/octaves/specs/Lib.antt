-- Words of inner contracts, in `inner`.
pub mod inner
pub mod OfLoading
