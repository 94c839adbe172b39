-- What of `places` this crate hands on to those that do not list it.
pub use Rattle.places.specs.Counts
pub use Rattle.places.specs.Finding
pub use Rattle.places.specs.Gathered
pub use Rattle.places.specs.Naming
pub use Rattle.places.specs.Sets
pub use Rattle.places.specs.laws
