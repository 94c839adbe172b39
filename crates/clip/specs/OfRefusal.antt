-- What of `refusal` this crate hands on to those that do not list it.
pub use Rattle.refusal.specs.Clash
