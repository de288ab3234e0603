-- Ranges of intervals, and the runs of cells in them.
pub mod Ranging
pub mod Jumps
pub mod Counting
pub mod Lists
