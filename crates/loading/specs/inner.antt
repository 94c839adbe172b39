-- Words of inner contracts.
pub mod Mlf
