-- What of `slices` this crate hands on to those that do not list it.
pub use Rattle.settle.specs.OfSlices.Slices
