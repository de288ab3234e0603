-- The successors of an entry, and the search through them.
pub mod Arriving
pub mod Successors
pub mod Regular
pub mod Searching
pub mod InBoxes
pub mod Overflowing
