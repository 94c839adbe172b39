-- What follows from the definition of pages.
pub mod PageFits
