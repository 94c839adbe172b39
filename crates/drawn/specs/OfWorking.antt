-- What of `working` this crate hands on to those that do not list it.
pub use Rattle.loading.specs.OfWorking.Work
pub use Rattle.loading.specs.OfWorking.Parameters
pub use Rattle.loading.specs.OfWorking.Worked
