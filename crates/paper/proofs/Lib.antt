pub mod Agrees
