-- What of `volts` this crate hands on to those that do not list it.
pub use Rattle.volts.specs.Volts
pub use Rattle.volts.specs.laws
