-- Ranges and runs, by which the code visits successors.
pub mod Ranges
