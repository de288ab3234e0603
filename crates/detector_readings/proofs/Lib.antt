-- Floats by their bits.
pub mod Heights
