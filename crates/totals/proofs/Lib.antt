pub mod Integers
pub mod Lists
pub mod Amounts
pub mod Roles
pub mod OfTerms
pub mod OfPolarity
