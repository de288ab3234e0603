-- The laws of intervals, cells, images and successors.
pub mod Numbers
pub mod Edges
pub mod Intervals
pub mod Images
pub mod Meets
pub mod Successors
pub mod Alike
