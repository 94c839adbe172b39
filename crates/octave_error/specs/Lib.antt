-- How near a mantissa is to what it stands for.
pub mod Near
