-- Slices of other lengths, and what is kept.
pub mod Lengths
pub mod Showing
