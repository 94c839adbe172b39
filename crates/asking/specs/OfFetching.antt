-- What of `fetching` this crate hands on to those that do not list it.
pub use Rattle.fetching.specs.Fetched
