-- Sums by the link that turns lead to, kept by one pass over the turns.
pub mod Summing
