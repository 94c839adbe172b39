-- Words of inner contracts: what a search between bounds and from the highest power down has come to.
pub mod Search
