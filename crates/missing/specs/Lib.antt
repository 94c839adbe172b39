-- Words of inner contracts, in `inner`.
pub mod inner
