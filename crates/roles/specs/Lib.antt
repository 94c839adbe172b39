-- The nodes of a transistor's roles.
pub mod Roles
