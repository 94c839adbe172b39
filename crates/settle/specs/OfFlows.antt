-- What of `flows` this crate hands on to those that do not list it.
pub use Rattle.flows.specs.Back
pub use Rattle.flows.specs.inner
