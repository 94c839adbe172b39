-- What follows from the definitions: the number told, one result for one record, an answer's verdict.
pub mod Tells
pub mod Unique
