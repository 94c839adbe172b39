-- What of `card` this crate hands on to those that do not list it.
pub use Rattle.terms.specs.OfCard.WorkedCard
