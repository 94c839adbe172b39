-- What of `rows` this crate hands on to those that do not list it.
pub use Rattle.rows.specs.Outcome
pub use Rattle.rows.specs.inner
pub use Rattle.rows.specs.laws
