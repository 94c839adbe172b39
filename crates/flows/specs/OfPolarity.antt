-- What of `polarity` this crate hands on to those that do not list it.
pub use Rattle.totals.specs.OfPolarity.Polarity
