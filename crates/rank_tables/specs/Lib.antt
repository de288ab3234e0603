-- The index and the table of ranks.
pub mod Index
