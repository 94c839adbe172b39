-- Theorems on libraries: reading and writing, which libraries are sound, which versions are taken, finding and
-- handing out.
pub mod Inverse
pub mod SoundLibraries
pub mod Versions
pub mod Finding
