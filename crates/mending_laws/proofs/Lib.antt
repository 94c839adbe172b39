-- Theorems on mending: one record, the records of a library, the library whole, and what loading says of its cards.
pub mod OneRecord
pub mod AllRecords
pub mod Libraries
pub mod Loading
pub mod Mendings
