-- The tables of a grid, filled entry by entry, the next cell's intervals, and the cell of given queues.
pub mod Counting
pub mod Filling
pub mod Locating
