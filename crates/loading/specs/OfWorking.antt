-- What of `working` this crate hands on to those that do not list it.
pub use Rattle.working.specs.Work
pub use Rattle.working.specs.declared.Parameters
pub use Rattle.working.specs.declared.Worked
