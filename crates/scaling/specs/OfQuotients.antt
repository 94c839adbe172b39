-- What of `quotients` this crate hands on to those that do not list it.
pub use Rattle.octave.specs.OfQuotients.Quotient
