-- Who stands on a node: the words of inner contracts.
pub mod inner
