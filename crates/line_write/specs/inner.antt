-- Words of inner contracts: a line as it is put together.
pub mod Parts
