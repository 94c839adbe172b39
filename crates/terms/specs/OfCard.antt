-- What of `card` this crate hands on to those that do not list it.
pub use Rattle.card_laws.specs.OfCard.Judge
pub use Rattle.card_laws.specs.OfCard.inner
pub use Rattle.card_laws.specs.OfCard.WorkedCard
