-- Words that inner contracts use, and what callers may count on.
pub mod Replied
