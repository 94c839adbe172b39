-- What loading asks, file by file; `inner` has a word of inner contracts, and `laws` one of the theorems.
pub mod Octave
pub mod Knee
pub mod Numbers
pub mod inner
pub mod laws
pub mod OfClip
pub mod OfWorking
