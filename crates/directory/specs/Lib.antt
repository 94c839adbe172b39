-- A library's form, and how it and its directory are judged.
pub mod Format
pub mod Judged
pub mod Unique
