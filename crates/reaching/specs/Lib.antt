-- The first digits that come to a size.
pub mod FirstTo
