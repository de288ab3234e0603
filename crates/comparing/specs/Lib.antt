-- The walk through two tables of entries.
pub mod Walk
