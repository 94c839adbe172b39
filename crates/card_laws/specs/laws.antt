-- What follows from the definitions: the number told, one result for one record, an answer's verdict, versions.
pub mod Tells
pub mod Unique
pub mod Version
