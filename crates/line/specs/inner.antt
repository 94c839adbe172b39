-- Words of inner contracts: the head and the keys as the code has them, and reading from either on.
pub mod Steps
