-- What of `card` this crate hands on to those that do not list it.
pub use Rattle.card.specs.Judge
pub use Rattle.card.specs.inner
pub use Rattle.card.specs.declared.WorkedCard
