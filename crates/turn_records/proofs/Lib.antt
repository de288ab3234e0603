-- The order of pairs, and totals of shares, one turn after another.
pub mod Pairs
pub mod TurnTotals
