-- Words of inner contracts: what working a transistor asks.
pub mod Workable
