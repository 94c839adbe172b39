-- What of `volts` this crate hands on to those that do not list it.
pub use Rattle.scaling.specs.OfVolts.Volts
pub use Rattle.scaling.specs.OfVolts.laws
