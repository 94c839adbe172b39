-- Words of inner contracts.
pub mod Parts
