-- What of `rows` this crate hands on to those that do not list it.
pub use Rattle.rows.specs.declared.Over
