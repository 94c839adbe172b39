-- Words that inner contracts use.
pub mod Width
