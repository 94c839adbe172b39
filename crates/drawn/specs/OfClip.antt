-- What of `clip` this crate hands on to those that do not list it.
pub use Rattle.loading.specs.OfClip.Clip
pub use Rattle.loading.specs.OfClip.Limits
pub use Rattle.loading.specs.OfClip.Numbers
pub use Rattle.loading.specs.OfClip.Record
pub use Rattle.loading.specs.OfClip.laws
pub use Rattle.loading.specs.OfClip.Clipping
pub use Rattle.loading.specs.OfClip.limits
