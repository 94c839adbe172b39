pub mod Sister
