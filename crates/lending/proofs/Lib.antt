pub mod Footing
pub mod Tests
pub mod Cases
pub mod Stays
pub mod Sums
pub mod Leaves
pub mod OfModel
