-- Words of what follows.
pub mod Sign
