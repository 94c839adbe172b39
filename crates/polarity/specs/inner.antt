-- Words of inner contracts.
pub mod Turning
