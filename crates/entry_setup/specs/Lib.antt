-- The tables that judging goes by, and what it finds out once of an entry.
pub mod Bytes
pub mod Tables
