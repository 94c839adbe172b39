-- Words of inner contracts.
pub mod Told
