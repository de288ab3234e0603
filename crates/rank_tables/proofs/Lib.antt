-- The entries of a cell, by bisection and by the index, and the table of ranks.
pub mod Finding
pub mod Bisecting
pub mod Ranking
