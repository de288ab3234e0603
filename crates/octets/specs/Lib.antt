-- What the code that fills tables goes by, and the refusals of the code.
pub mod Tables
pub mod Bounds
pub mod Refusals
