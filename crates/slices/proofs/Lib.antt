pub mod Fitting
pub mod Passing
pub mod Keeping
