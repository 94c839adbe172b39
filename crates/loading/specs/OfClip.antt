-- What of `clip` this crate hands on to those that do not list it.
pub use Rattle.working.specs.OfClip.Clip
pub use Rattle.working.specs.OfClip.Limits
pub use Rattle.working.specs.OfClip.Numbers
pub use Rattle.working.specs.OfClip.Record
pub use Rattle.working.specs.OfClip.laws
pub use Rattle.working.specs.OfClip.Clipping
pub use Rattle.working.specs.OfClip.limits
