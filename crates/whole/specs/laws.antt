-- What follows from the definitions, in the words of no document.
pub mod Biased
pub mod Machine
pub mod Every
