-- Records mended.
pub mod Records
