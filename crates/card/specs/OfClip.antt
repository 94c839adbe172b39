-- What of `clip` this crate hands on to those that do not list it.
pub use Rattle.drawn.specs.OfClip.Clip
pub use Rattle.drawn.specs.OfClip.Limits
pub use Rattle.drawn.specs.OfClip.Numbers
pub use Rattle.drawn.specs.OfClip.Record
pub use Rattle.drawn.specs.OfClip.limits
