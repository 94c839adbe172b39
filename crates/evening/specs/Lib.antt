-- What is said of a node's transistors, and of all nodes in the evening.
pub mod Said
pub mod OfBoard
