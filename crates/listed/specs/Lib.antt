-- What a listing shows of a name and of a mask.
pub mod Listed
