-- What of `scaling` this crate hands on to those that do not list it.
pub use Rattle.rows.specs.OfScaling.Scaled
