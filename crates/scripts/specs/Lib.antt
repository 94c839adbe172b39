-- A script obeyed.
pub mod Script
