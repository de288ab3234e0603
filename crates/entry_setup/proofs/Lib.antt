-- The table of arrivals, the edges of a cell, the ends of its image before arrivals, and what is found out of an entry.
pub mod Arrivals
pub mod Entries
pub mod EntryEnds
