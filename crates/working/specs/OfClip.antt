-- What of `clip` this crate hands on to those that do not list it.
pub use Rattle.clip.specs.Clip
pub use Rattle.clip.specs.Limits
pub use Rattle.clip.specs.Numbers
pub use Rattle.clip.specs.Record
pub use Rattle.clip.specs.laws
pub use Rattle.clip.specs.declared.Clipping
pub use Rattle.clip.specs.declared.limits
