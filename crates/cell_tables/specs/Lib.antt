-- The tables that the code makes of a grid.
pub mod Tables
