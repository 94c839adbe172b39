-- What of `asking` this crate hands on to those that do not list it.
pub use Rattle.calling.specs.OfAsking.Asked
