-- Words of inner contracts: numbers that are judged all at once.
pub mod Small
