-- Words of inner contracts: a caller's node as the board holds it.
pub mod Nodes
