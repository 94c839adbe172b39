-- What of `working` this crate hands on to those that do not list it.
pub use Rattle.drawn.specs.OfWorking.Work
pub use Rattle.drawn.specs.OfWorking.Parameters
pub use Rattle.drawn.specs.OfWorking.Worked
