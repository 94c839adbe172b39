-- What of `lending` this crate hands on to those that do not list it.
pub use Rattle.lending.specs.Lending
pub use Rattle.lending.specs.Reached
pub use Rattle.lending.specs.Rest
pub use Rattle.lending.specs.inner
