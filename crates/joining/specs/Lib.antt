-- The lines of a file of models: what each is, and how they are joined.
pub mod Lines
