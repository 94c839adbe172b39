-- What of `model` this crate hands on to those that do not list it.
pub use Rattle.model.specs.Answering
pub use Rattle.model.specs.Board
pub use Rattle.model.specs.Counts
pub use Rattle.model.specs.Desk
pub use Rattle.model.specs.Model
pub use Rattle.model.specs.Verdict
pub use Rattle.model.specs.declared.Answer
