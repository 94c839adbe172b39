-- Words of inner contracts: pairs kept as voltages, and who names one of their nodes.
pub mod Pairs
