-- What of `host_changes` this crate hands on to those that do not list it.
pub use Rattle.host_changes.specs.Changes
